-- The members of a record, put a few at a time, are in the order of their names.
use Rattle.std.proofs.Common.{◌≡◌, refl, Option}
use Rattle.serde_json.proofs.OnLiterals.{serde_json_on_literals}
use Rattle.serde_json.specs.Data.{Members, object, no_members}
use Rattle.office_rules.specs.declared.entry.Entry.{Entry}
use Rattle.office_rules.specs.declared.record_view.RecordView.{RecordView}
use Rattle.office_json.specs.RecordJson.{put_first, put_last, put_second, put_third, record_data}

in_order : (r : RecordView) (ending : Option Entry) → object (put_last r (put_third r (put_second r ending (put_first r no_members)))) ≡ record_data r ending
unfolding serde_json_on_literals put_first put_second put_third put_last record_data
in_order r ending = refl

-- members to which each part was put
pub all_put : (r : RecordView) (ending : Option Entry) (first second third last : Members)
    → first ≡ put_first r no_members → second ≡ put_second r ending first → third ≡ put_third r second → last ≡ put_last r third
    → object last ≡ record_data r ending
all_put r ending first second third last a b c d = rw (d, c, b, a) (in_order r ending)
