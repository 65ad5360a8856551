-- An office does not show which right permitted a step. So deeds by right have the acts of deeds that were each permitted:
-- for a step of a resumption, the step of a name that has a right to steps for each right of the other.
use Rattle.std.proofs.Common.{◌≡◌, ◌≢◌, inl, inr, ℕ, ◌<◌, Bool, true, false, ◌&&◌, ◌||◌, List, [], ◌∷◌, map, length, Some, None, refl, sym, ap, subst, ◌∙◌}
use Rattle.std.specs.FinMap.{get}
use Rattle.std.specs.List.{list_any}
use Rattle.std.proofs.Math.Bool.{and-false}
use Rattle.std.proofs.lemmas.List.{length-map}
use Rattle.std.proofs.lemmas.List.Sums.{AllPass-from_list_all}
use Rattle.office_records.specs.Lists.{numbered}
use Rattle.office_rules.specs.Acts.{after, step}
use Rattle.office_rules.specs.Sound.{IsSoundOffice}
use Rattle.office_rules.specs.State.{Office, State}
use Rattle.office_rules.specs.declared.act.Act.{Act}
use Rattle.office_rules.specs.declared.act.Act.TheVariants.{RunStep}
use Rattle.office_rules.specs.declared.entry.Entry.{Entry}
use Rattle.office_rules.specs.declared.run.Run.{Run}
use Rattle.office_access.specs.Deeds.{AllPermitted, Deed, acts_of}
use Rattle.office_access.specs.Eyes.{forbids}
use Rattle.office_access.specs.Permits.{Permits}
use Rattle.office_access.specs.Rights.{covers, is_right, may_in}
use Rattle.office_access.specs.Kinds.{same_power}
use Rattle.office_access.specs.Settings.{Settings}
use Rattle.office_access.specs.TwoPeople.{AllKeepApart}
use Rattle.office_access.specs.declared.grants.Grants.{Grants}
use Rattle.office_access.specs.declared.kind.Kind.TheVariants as kind
use Rattle.office_access.specs.declared.power.Power.TheVariants as power
use Rattle.office_access.specs.declared.right.Right.{Right}
use Rattle.office_access.specs.declared.rule.Rule.{Rule}
use Rattle.office_access.specs.declared.rule.Rule.TheVariants as rule
use Rattle.office_access.proofs.TwoPeople.{two_people}
use Rattle.office_guard.specs.ByRights.{AllByRights, IsByRight, IsStepOfResumption}

-- ---- a name with the right to steps

-- each right is one to steps of runs
abbrev of_steps : Right → Right
of_steps right = record right { power = power.Act kind.RunStep }

abbrev with_steps : Grants → Grants
with_steps grants =
    let rights = grants.rights in
    record grants {
      rights = record {
        ptr = rights.ptr;
        len = rights.len;
        cap = rights.cap;
        alloc = rights.alloc;
        items = map of_steps rights.items;
        ok = (rights.ok.0 ∙ sym (length-map rights.items of_steps), rights.ok.1);
        small = rights.small;
      };
    }

may_step : (rights : List Right) → list_any (is_right power.Resume None false) rights ≡ true → list_any (is_right (power.Act kind.RunStep) None false) (map of_steps rights) ≡ true
may_step [] h = absurd cc
may_step (right ∷ rest) h = either (same_power right.power power.Resume) (covers None false right) (list_any (is_right power.Resume None false) rest) _ h (may_step rest)
  where
    either : (a b c d : Bool) → ((a && b) || c) ≡ true → (c ≡ true → d ≡ true) → (b || d) ≡ true
    either a true c d h more = refl
    either true false c d h more = more h
    either false false c d h more = more h

-- the settings of that name
abbrev of_stand_in : Settings → Grants → Settings
of_stand_in settings grants = record {
  people = [];
  taken = [];
  others = Some (with_steps grants);
  rules = record {
    opener_does_not_carry_out = false;
    confirmer_does_not_open = settings.rules.confirmer_does_not_open;
    changer_does_not_open = None;
    sender_does_not_receive = false;
    receiver_does_not_open = false;
  };
}

none_forbids : (settings : Settings) (grants : Grants) (s : Office) (name : List ℕ) (it : Rule) → forbids (of_stand_in settings grants).rules s name (with_steps grants) RunStep it ≡ false
none_forbids settings grants s name rule.OpenerDoesNotCarryOut = refl
none_forbids settings grants s name rule.ConfirmerDoesNotOpen = and-false settings.rules.confirmer_does_not_open
none_forbids settings grants s name rule.ChangerDoesNotOpen = refl
none_forbids settings grants s name rule.SenderDoesNotReceive = refl
none_forbids settings grants s name rule.ReceiverDoesNotOpen = refl

-- ---- a deed that was permitted, with the same act

record IsStandIn (s : Office) (d : Deed) : Type 0 where
  deed : Deed
  same : deed.act ≡ d.act
  may : Permits deed.settings s deed.today deed.name deed.act
  rule : deed.settings.rules.confirmer_does_not_open ≡ d.settings.rules.confirmer_does_not_open

stepping : (s : Office) (d : Deed) → IsStepOfResumption s d → IsStandIn s d
stepping s d taken =
    let grants = taken.permitted.grants in
    record {
      deed = record { settings = of_stand_in d.settings grants; today = d.today; name = d.name; act = RunStep };
      same = sym taken.act;
      may = record {
        grants = with_steps grants;
        known = refl;
        right = AllPass-from_list_all (may_in (with_steps grants) (power.Act kind.RunStep)) (None ∷ []) (ap (λ b. b && true) (may_step grants.rights.items taken.permitted.right));
        signed = tt;
        timely = refl;
        apart = none_forbids d.settings grants s d.name.name;
      };
      rule = refl;
    }

stand_in : (s : Office) (d : Deed) → IsByRight s d → IsStandIn s d
stand_in s d right = elim right [
  | inl may ↦ record { deed = d; same = refl; may = may; rule = refl }
  | inr taken ↦ stepping s d taken
]

-- ---- all deeds

record AreStandIns (s : State) (deeds : List Deed) : Type 0 where
  all : List Deed
  same : acts_of all ≡ acts_of deeds
  may : AllPermitted s all
  rule : AllKeepApart deeds → AllKeepApart all

stand_ins : (s : State) (deeds : List Deed) → AllByRights s deeds → AreStandIns s deeds
stand_ins s [] all = record { all = []; same = refl; may = tt; rule = λ _. tt }
stand_ins s (d ∷ rest) all =
    let one = stand_in s.office d all.0 in
    let more = stand_ins (step s d.act).1 rest all.1 in
    record {
      all = one.deed ∷ more.all;
      same = λ i. one.same i ∷ more.same i;
      may = (one.may, subst (λ (a : Act). AllPermitted (step s a).1 more.all) (sym one.same) more.may);
      rule = λ keep. (one.rule ∙ keep.0, more.rule keep.1);
    }

pub two_people_by_right : (s : State) (deeds : List Deed) (run r : ℕ) (it : Run) (e : Entry) → IsSoundOffice s.office → IsSoundOffice (after s (acts_of deeds)).office → AllByRights s deeds → AllKeepApart deeds → length s.office.runs < run
    → numbered (after s (acts_of deeds)).office.runs run ≡ Some it → get (after s (acts_of deeds)).office.entries (run, r) ≡ Some e → e.confirmed_by ≢ it.by
two_people_by_right s deeds run r it e sound sound_after all keep high there is =
    let others = stand_ins s deeds all in
    let same : after s (acts_of deeds) ≡ after s (acts_of others.all) = ap (after s) (sym others.same) in
    two_people s others.all run r it e sound (subst (λ (t : State). IsSoundOffice t.office) same sound_after) others.may (others.rule keep) high
    (ap (λ (t : State). numbered t.office.runs run) (sym same) ∙ there)
    (ap (λ (t : State). get t.office.entries (run, r)) (sym same) ∙ is)
