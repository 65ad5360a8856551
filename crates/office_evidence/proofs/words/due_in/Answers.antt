use Rattle.std.proofs.Common.{◌≡◌, ◌∙◌, sym, ap, Some, None, arith}
use Rattle.std.proofs.lemmas.Int.{ints}
use Rattle.jiff_core.specs.Date.{epoch_day}
use Rattle.office_evidence.proofs.DueWords.{due_made, due_read}
use Rattle.office_evidence.proofs.words.due_in.Goals as goal

pub returns-in_err-date : goal.returns-in_err-date
returns-in_err-date c d form same =
    let found = due_read c.args.word.now c.parse.result d c.parse.ensures.value form same in
    let no : None ≡ Some found.0 = sym c.in_err-date.was ∙ c.ok.ensures.value ∙ found.1 in
    absurd cc

pub returns : goal.returns
returns c d form same =
    let found = due_read c.args.word.now c.parse.result d c.parse.ensures.value form same in
    let is : Some c.in_ok-date.date ≡ Some found.0 = sym c.in_ok-date.was ∙ c.ok.ensures.value ∙ found.1 in
    let date : c.in_ok-date.date ≡ found.0 = cc in
    let number : c.to_unix_epoch_day.result ≡ d = c.to_unix_epoch_day.ensures.value ∙ ap epoch_day (c.to_plain.ensures ∙ date) ∙ found.2 in
    due_made c.of_number.result _ d c.of_number.ensures.in_range c.of_number.ensures.value (omega (arith, ints, number, form.0, form.1)) form
