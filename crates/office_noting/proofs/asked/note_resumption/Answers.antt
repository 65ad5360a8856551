use Rattle.std.proofs.Common.{◌∙◌, inr, refl, subst, sym, None}
use Rattle.office_noting.specs.Requests.{HasNotes}
use Rattle.office_noting.proofs.asked.note_resumption.Goals as goal

pub returns-clause-line : goal.returns-clause-line
returns-clause-line g c =
    let line = c.resumption_by-asked.ensures in
    inr (
      record c.resumption_by-asked.result { settings = c.args.visit.now.settings },
      record {
        sender = record { name = line.name ∙ c.text-name.ensures.value; from = line.from ∙ c.address.ensures; settings = refl };
        asks = line.request;
        body = line.body.0;
        notes = subst (HasNotes None) (sym line.body.1) tt;
      },
      c.note_asked.ensures.noted,
    )
