use Rattle.std.proofs.Common.{◌∙◌, ap, inr, refl, Some}
use Rattle.serde_json.specs.Read.{read}
use Rattle.office_noting.proofs.Listed.{has_notes}
use Rattle.office_noting.proofs.asked.note_list.Goals as goal

pub returns-clause-line : goal.returns-clause-line
returns-clause-line g c =
    let line = c.list_by-asked.ensures in
    inr (
      record c.list_by-asked.result { body = Some c.sum_of.result; settings = c.args.visit.now.settings },
      record {
        sender = record { name = line.name ∙ c.text-name.ensures.value; from = line.from ∙ c.address.ensures; settings = refl };
        asks = line.request c.args.body.now;
        body = ap Some c.sum_of.ensures;
        notes = has_notes c.args.all.now _ _ line.notes (ap read c.as_str.ensures.value ∙ c.in-Ok-acts_text.ensures.read);
      },
      c.note_asked.ensures.noted,
    )
