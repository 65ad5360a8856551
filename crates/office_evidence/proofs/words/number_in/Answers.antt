use Rattle.std.proofs.Common.{◌∙◌, ap, arith}
use Rattle.std.specs.Result.{result_ok}
use Rattle.std.proofs.lemmas.Fmt.{parse-decimal}
use Rattle.office_evidence.proofs.words.number_in.Goals as goal

pub returns : goal.returns
returns c n small same = c.ok.ensures.value ∙ ap result_ok (parse-decimal 32 n c.args.word.now c.parse.result small (omega arith) same c.parse.ensures.value.0)
