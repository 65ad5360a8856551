-- What a sound office lists in a certificate is there and of its form.
use Rattle.std.proofs.Common.{◌≡◌, ◌↔◌, ℕ, ◌<◌, ◌≤◌, ◌^◌, ◌&&◌, ℤ, true, List, length, Option, Some, sym, ap, subst, ◌∙◌, arith}
use Rattle.std.specs.Prelude.{IsSome, nat_le}
use Rattle.std.specs.FinMap.{get}
use Rattle.std.specs.List.{All, Contains}
use Rattle.std.proofs.lemmas.Bool.Decides.{nat_tests}
use Rattle.std.proofs.lemmas.List.Elements.{All-map}
use Rattle.office_days.specs.Limits.{IsDayNumber}
use Rattle.office_records.specs.Forms.{IsText, IsWellFormedAggregation, IsWellFormedRecord}
use Rattle.office_records.specs.Lists.{numbered}
use Rattle.office_records.specs.declared.aggregation.Aggregation.{Aggregation}
use Rattle.office_records.specs.declared.head.Record.{Record}
use Rattle.office_rules.specs.EntryForms.{IsWellFormedEntry}
use Rattle.office_rules.specs.Runs.{entries_of, spent_list}
use Rattle.office_rules.specs.Sound.{IsSound}
use Rattle.office_rules.specs.State.{State}
use Rattle.office_rules.specs.declared.entry.Entry.{Entry}
use Rattle.office_rules.specs.declared.outcome.Outcome.TheVariants.{Skipped}
use Rattle.office_rules.proofs.Listing.{listed_aggregations, listed_entries}
use Rattle.office_rules.proofs.SoundMaps.{is_there}
use Rattle.office_rules.proofs.SoundPlans.{numbered_there}
use Rattle.office_evidence.specs.Parsed.{IsWellFormedCertificate, IsWellFormedLine, IsWellFormedSpent}
use Rattle.office_evidence.proofs.Lasting.{HasRun}
use Rattle.office_evidence.proofs.Viewed.{all_of, line_by, line_in, spent_by, spent_in, view_of}

formed_line : (e : Entry) (o : Option Record) (head : Record) → o ≡ Some head → IsWellFormedEntry e → IsWellFormedRecord head → IsSome e.hold ↔ (e.outcome ≡ Skipped) → e.record_no < 2 ^ 32 → IsWellFormedLine (line_by e o)
formed_line e o head there entry record_formed holds few =
    let short = record_formed.length_few in
    subst (λ (x : Option Record). IsWellFormedLine (line_by e x)) (sym there) (record {
      record_few = few;
      ref_text = record_formed.ref_text;
      class = entry.class;
      schedule = entry.schedule;
      due = entry.due;
      hold = record { form = entry.hold; skipped = holds };
      confirmed_by = entry.confirmed_by;
      length_few = omega arith;
      digest = record_formed.digest;
    })

formed_spent : (a : ℕ) (o : Option Aggregation) (it : Aggregation) → o ≡ Some it → IsWellFormedAggregation it → a < 2 ^ 32 → IsWellFormedSpent (spent_by a o)
formed_spent a o it there formed few = subst (λ (x : Option Aggregation). IsWellFormedSpent (spent_by a x)) (sym there) (record { few = few; ref_text = formed.ref_text })

within_of : (n a : ℕ) → (nat_le 1 a && nat_le a n) ≡ true → (0 < a) × (a ≤ n)
within_of n a e = (grind (arith, nat_tests), grind (arith, nat_tests))

module _ (s : State) (run : ℕ) (sound : IsSound s) where
  -- an entry that is listed is under its record
  pub listed_under : (e : Entry) → Contains (entries_of s.office run) e → (get s.office.entries (run, e.record_no) ≡ Some e)
  listed_under e listed =
      let under = (listed_entries s run e sound).0 listed in
      let number : under.0 ≡ e.record_no = sym (sound.entries.keyed run under.0 e under.1).1 in
      ap (λ (r : ℕ). get s.office.entries (run, r)) (sym number) ∙ under.1

  head_of : (e : Entry) → get s.office.entries (run, e.record_no) ≡ Some e → (head : Record) × (numbered s.office.tree.records e.record_no ≡ Some head)
  head_of e there =
      let within = (sound.names.of_entries run e.record_no e there).record_there in
      numbered_there s.office.tree.records e.record_no within.0 within.1

  pub heads_there : All (λ e. IsSome (numbered s.office.tree.records e.record_no)) (entries_of s.office run)
  heads_there = all_of (λ e. IsSome (numbered s.office.tree.records e.record_no)) (entries_of s.office run) (λ e listed.
      let head = head_of e (listed_under e listed) in
      is_there (numbered s.office.tree.records e.record_no) head.0 head.1)

  line_formed : (e : Entry) → Contains (entries_of s.office run) e → IsWellFormedLine (line_in s.office.tree e)
  line_formed e listed =
      let there = listed_under e listed in
      let head = head_of e there in
      let within = (sound.names.of_entries run e.record_no e there).record_there in
      let few = sound.limits.tree_few.records_few in
      formed_line e (numbered s.office.tree.records e.record_no) head.0 head.1 (sound.limits.entry_forms run e.record_no e there) (sound.limits.tree_forms.records e.record_no head.0 head.1)
      (sound.entries.holds run e.record_no e there) (omega (arith, within.1, few))

  pub spent_of : (a : ℕ) → Contains (spent_list s.office.tree (entries_of s.office run)) a → (0 < a) × (a ≤ length s.office.tree.aggregations)
  spent_of a listed = within_of (length s.office.tree.aggregations) a ((listed_aggregations s.office.tree (entries_of s.office run) a).0 listed).0

  pub spent_there : All (λ a. IsSome (numbered s.office.tree.aggregations a)) (spent_list s.office.tree (entries_of s.office run))
  spent_there = all_of (λ a. IsSome (numbered s.office.tree.aggregations a)) (spent_list s.office.tree (entries_of s.office run)) (λ a listed.
      let within = spent_of a listed in
      let it = numbered_there s.office.tree.aggregations a within.0 within.1 in
      is_there (numbered s.office.tree.aggregations a) it.0 it.1)

  spent_formed : (a : ℕ) → Contains (spent_list s.office.tree (entries_of s.office run)) a → IsWellFormedSpent (spent_in s.office.tree a)
  spent_formed a listed =
      let within = spent_of a listed in
      let it = numbered_there s.office.tree.aggregations a within.0 within.1 in
      let few = sound.limits.tree_few.aggregations_few in
      formed_spent a (numbered s.office.tree.aggregations a) it.0 it.1 (sound.limits.tree_forms.aggregations a it.0 it.1) (omega (arith, within.1, few))

  -- the certificate of a run that is there
  pub view_formed : (day : ℤ) (by : List ℕ) → HasRun run day by s → run ≤ length s.office.runs
      → IsWellFormedCertificate (view_of s.office.tree run day by (entries_of s.office run) (spent_list s.office.tree (entries_of s.office run)))
  view_formed day by has low =
      let form = sound.limits.run_forms run has.it has.there in
      let few = sound.limits.runs_few in
      record {
        run_few = omega (arith, low, few);
        day = subst (λ (d : ℤ). IsDayNumber d) has.on_day form.day;
        by = subst (λ (t : List ℕ). IsText t) has.opened_by form.by;
        entries = All-map IsWellFormedLine (line_in s.office.tree) (entries_of s.office run) (all_of (λ e. IsWellFormedLine (line_in s.office.tree e)) (entries_of s.office run) line_formed);
        spent = All-map IsWellFormedSpent (spent_in s.office.tree) (spent_list s.office.tree (entries_of s.office run))
            (all_of (λ a. IsWellFormedSpent (spent_in s.office.tree a)) (spent_list s.office.tree (entries_of s.office run)) spent_formed);
      }
