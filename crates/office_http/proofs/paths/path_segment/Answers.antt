use Rattle.std.proofs.Common.{lit<, refl}
use Rattle.std.proofs.lemmas.Iterator.Consumers.{nth_from_yields_List}
use Rattle.std.proofs.lemmas.Iterator.Splits.{YieldsList-from_str_split}
use Rattle.office_http.proofs.SegmentLemmas.{text_at}
use Rattle.office_http.proofs.paths.path_segment.Goals as goal

pub returns : goal.returns
returns c =
    let splits = YieldsList-from_str_split 47 c.args.path.now (lit< tt) c.split.ensures.text c.split.ensures.has_more c.split.ensures.pattern in
    let found = nth_from_yields_List _ _ c.args.place c.nth.ensures.ran splits in
    text_at _ _ _ _ found refl c.unwrap_or.ensures
