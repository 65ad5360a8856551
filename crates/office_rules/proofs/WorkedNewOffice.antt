-- The first run of a new office, which finds no record.
use Rattle.std.proofs.Common.{◌≡◌, ◌++◌, ◌≤ℤ◌, ℕ, ℤ, List, [], ◌∷◌, false, Some, refl, ap, ◌∙◌, arith, map}
use Rattle.std.specs.Prelude.{codes, int_lt, filter, ◌==◌}
use Rattle.std.specs.Fmt.{digits}
use Rattle.std.specs.FinMap.{get, empty, get-insert}
use Rattle.std.specs.Cmp.{nat_cmp_total}
use Rattle.std.proofs.lemmas.Int.{ints}
use Rattle.office_base.specs.declared.refusal.Refusal.TheVariants.{DayBack, NoRun}
use Rattle.office_records.specs.Conditions.{first_of}
use Rattle.office_records.specs.Tree.{empty_tree}
use Rattle.office_rules.specs.Certificates.{certificate_lines, certificate_text, lines_text, date_text, sealed}
use Rattle.office_rules.specs.declared.entry.Entry.{Entry}
use Rattle.office_rules.specs.Effects.{after_open_run}
use Rattle.office_rules.specs.Runs.{run_step, closed, spent_list, certificate_of}
use Rattle.office_rules.specs.State.{State, empty_state, first_day, with_office, entry_cmp}
use Rattle.office_rules.specs.Steps.{by_refusal, step_run_step}
use Rattle.office_rules.specs.Worked.{opening, first_step, second_step}
use Rattle.office_rules.proofs.WorkedMaps.{no_entries}
use Rattle.office_rules.specs.declared.answer.Answer.{Answer}
use Rattle.office_rules.specs.declared.answer.Answer.TheVariants.{Number, RunClosed, Refused}

not_before : (day : ℤ) → first_day ≤ℤ day → int_lt day first_day ≡ false
not_before day h = grind (arith, ints)

-- the new office with its run open
abbrev opened : ℤ → State
opened day = with_office empty_state (after_open_run empty_state.office day (codes "registrar"))

opening_is : (day : ℤ) → first_day ≤ℤ day → opening day ≡ (Number 1, opened day)
opening_is day h = ap (λ b. by_refusal (first_of ((DayBack, b) ∷ [])) empty_state (Number 1) (opened day)) (not_before day h)

pub opens : (day : ℤ) → first_day ≤ℤ day → (opening day).0 ≡ Number 1
opens day h = ap (λ p. p.0) (opening_is day h)

pub closes : (day : ℤ) → first_day ≤ℤ day → (first_step day).0 ≡ RunClosed 1
closes day h = ap (λ p. (step_run_step p.1).0) (opening_is day h)

step_is : (day : ℤ) → step_run_step (opened day) ≡ (RunClosed 1, closed (opened day) 1)
unfolding run_step
step_is day = refl

first_step_is : (day : ℤ) → first_day ≤ℤ day → first_step day ≡ (RunClosed 1, closed (opened day) 1)
first_step_is day h = ap (λ (p : Answer × State). step_run_step p.1) (opening_is day h) ∙ step_is day

then_none : (day : ℤ) → (step_run_step (closed (opened day) 1)).0 ≡ Refused NoRun
unfolding closed
then_none day = refl

pub has_no_run : (day : ℤ) → first_day ≤ℤ day → (second_step day).0 ≡ Refused NoRun
has_no_run day h = ap (λ (p : Answer × State). (step_run_step p.1).0) (first_step_is day h) ∙ then_none day

abbrev lines : ℤ → List (List ℕ)
lines day = codes "CERTIFICATE 1" ∷ (codes "DAY " ++ date_text day) ∷ codes "BY registrar" ∷ codes "ENDED 0" ∷ codes "SENT 0" ∷ codes "SKIPPED 0" ∷ codes "SPENT 0" ∷ []

-- a certificate of no entries
text_is : (day : ℤ) → certificate_text empty_tree 1 day (codes "registrar") [] (spent_list empty_tree []) ≡ sealed (lines_text (lines day))
unfolding certificate_text certificate_lines spent_list digits
text_is day = refl

abbrev of_entries : ℤ → List Entry → List ℕ
of_entries day es = certificate_text empty_tree 1 day (codes "registrar") es (spent_list empty_tree es)

certificate_is : (day : ℤ) → certificate_of (opened day).office 1 ≡ sealed (lines_text (lines day))
certificate_is day = ap (λ (es : List ((ℕ × ℕ) × Entry)). of_entries day (filter (λ e. e.run == 1) (map (λ e. e.1) es))) (no_entries entry_cmp) ∙ text_is day

stored : (day : ℤ) → get (closed (opened day) 1).office.certificates 1 ≡ Some (certificate_of (opened day).office 1)
unfolding closed
stored day = get-insert nat_cmp_total empty 1 (certificate_of (opened day).office 1) 1

pub has_certificate : (day : ℤ) → first_day ≤ℤ day → get (first_step day).1.office.certificates 1 ≡ Some (sealed (lines_text (lines day)))
has_certificate day h = ap (λ (p : Answer × State). get p.1.office.certificates 1) (first_step_is day h) ∙ stored day ∙ ap (λ (t : List ℕ). Some t) (certificate_is day)
