use Rattle.std.proofs.Common.{◌≡◌, ℕ, true, sym, ◌∙◌}
use Rattle.std.proofs.lemmas.Bool.{both_ways}
use Rattle.office_records.specs.Examined.{is_sound_event}
use Rattle.office_records.specs.declared.event.Event.{Event}
use Rattle.office_records.proofs.Passing.{next_passes, passed_next}
use Rattle.office_tree.proofs.soundness.are_sound_events.Goals as goal

pub returns-then-not-is_sound_event : goal.returns-then-not-is_sound_event
returns-then-not-is_sound_event c = (
  λ reported. absurd (cc reported),
  λ all. absurd (both_ways c.is_sound_event.result c.if-not-is_sound_event.true (c.is_sound_event.ensures ∙ next_passes (λ (e : ℕ × Event). is_sound_event c.args.count c.args.last e.0 e.1 ≡ true)
      c.loop-record_no.record_no-iterator c.next.new.self c.args.events.now.entries (c.in-Some.record_no.now, c.in-Some.event.now) c.loop-record_no.invariant c.in-Some.ensures.steps all)),
)

pub loop-record_no-preserved : goal.loop-record_no-preserved
loop-record_no-preserved c =
    passed_next (λ (e : ℕ × Event). is_sound_event c.args.count c.args.last e.0 e.1 ≡ true)
    c.loop-record_no.record_no-iterator c.next.new.self c.args.events.now.entries (c.in-Some.record_no.now, c.in-Some.event.now) c.loop-record_no.invariant c.in-Some.ensures.steps (sym c.is_sound_event.ensures ∙ c.if-not-is_sound_event.false)
