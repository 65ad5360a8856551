-- An office whose parts pass what is examined is sound with contents of the keys, and the parts of a sound one pass.
use Rattle.std.proofs.Common.{◌≡◌, ℕ, List, [], ◌∷◌, map, length, Option, Some, Bool, false, cond, refl, sym, ap, subst, ◌∙◌}
use Rattle.std.specs.Prelude.{true, nat_le}
use Rattle.std.specs.FinMap.{FinMap, entries, get-entries, values}
use Rattle.std.specs.FinMap.Entries.{find}
use Rattle.std.specs.Ordering.{eq_by_cmp, is_eq, nat_cmp}
use Rattle.std.specs.declared.cmp.Ordering.{Ordering}
use Rattle.std.specs.declared.cmp.Ordering.TheVariants.{Less, Equal, Greater}
use Rattle.std.proofs.lemmas.Map.Lookups.{CmpEqualImpliesEq, exact_pairs, exact_unsigned}
use Rattle.office_records.specs.Sound as tree
use Rattle.office_records.specs.declared.head.Record.{Record}
use Rattle.office_records.proofs.Bridge.{from_numbers}
use Rattle.office_records.proofs.Named.{le_to}
use Rattle.office_rules.specs.declared.entry.Entry.{Entry}
use Rattle.office_rules.specs.Loading.{AreEntriesKeyed, AreTablesOf, DoPartsAgree, EachHasOneEnding, HaveKeys, IsWellFormedOffice, entry_rows}
use Rattle.office_rules.specs.Rows.{rows_of}
use Rattle.office_rules.specs.Sound.{IsSound}
use Rattle.office_rules.specs.State.{ByteMap, entry_cmp, Office, State, with_contents}
use Rattle.office_rules.specs.Tables.{Represents, TableLists}
use Rattle.office_rules.proofs.OneState.{one_office}
use Rattle.office_machine.proofs.EntryTests.{AreEntriesSound, entries_sound, entries_tested}
use Rattle.office_machine.proofs.PartsTests.{contents_agree, days_sound, days_tested, active_keys, documents_sound, documents_tested}

pub found_sound : {V : Type 0} (s : Office) (marks : FinMap nat_cmp V) (contents : ByteMap) → IsWellFormedOffice s → AreEntriesKeyed s.entries → DoPartsAgree s marks
    → EachHasOneEnding s.tree.statuses (values s.entries) → tree.RefsDiffer s.tree.aggregations s.tree.records → map (λ e. e.0) (entries contents) ≡ map (λ e. e.0) (entries marks)
    → IsSound (with_contents s contents)
found_sound s marks contents formed keyed agree endings refs same =
    let them : AreEntriesSound s = entries_sound s keyed agree.represent.entries endings in
    record {
      limits = record {
        tree_few = formed.tree_sound.limits;
        tree_forms = formed.tree_forms;
        statuses = formed.tree_sound.statuses;
        holds_few = formed.holds_few;
        hold_forms = formed.hold_forms;
        runs_few = agree.runs_few;
        run_forms = formed.run_forms;
        entry_forms = formed.entry_forms;
        day_form = formed.day_form;
      };
      forest = formed.tree_sound.forest;
      names = record { of_tree = formed.tree_sound.names; of_holds = agree.represent.targets; of_entries = them.named };
      closed = formed.tree_sound.closed;
      contents = contents_agree s.tree.statuses contents marks same agree.represent.active;
      documents = documents_sound s.tree.records s.tree.statuses s.entries formed.tree_sound.statuses agree.documents them.transferred;
      entries = them.represent;
      runs = agree.represent.runs;
      days = days_sound s.tree.aggregations s.tree.records s.holds s.runs s.day agree.by.tree_by agree.by.holds_by agree.by.runs_by;
      events = agree.by.events_by;
      refs = refs;
    }

-- what soundness says of entries
sound_entries : (s : Office) (contents : ByteMap) → IsSound (with_contents s contents) → AreEntriesSound s
sound_entries s contents sound = record { represent = sound.entries; named = sound.names.of_entries; transferred = sound.documents.transferred }

-- the parts of a sound office agree
pub sound_parts : {V : Type 0} (s : Office) (marks : FinMap nat_cmp V) (contents : ByteMap) → map (λ e. e.0) (entries contents) ≡ map (λ e. e.0) (entries marks) → IsSound (with_contents s contents) → DoPartsAgree s marks
sound_parts s marks contents same sound =
    let days = days_tested s.tree.aggregations s.tree.records s.holds s.runs s.day sound.days in
    record {
      runs_few = sound.limits.runs_few;
      short = from_numbers (λ (head : Record). nat_le head.length 262_144 ≡ true) s.tree.records (λ r head at. le_to head.length 262_144 (sound.limits.tree_forms.records r head at).length_few);
      documents = documents_tested s.tree.records s.tree.statuses s.entries sound.documents;
      by = record { tree_by = days.0; events_by = sound.events; holds_by = days.1; runs_by = days.2 };
      represent = record {
        targets = sound.names.of_holds;
        runs = sound.runs;
        active = active_keys s.tree.statuses contents marks same sound.contents;
        entries = (entries_tested s sound.limits.statuses (sound_entries s contents sound)).0;
      };
    }

-- and each of its ended records has one entry that ended it
pub sound_endings : (s : Office) (contents : ByteMap) → IsSound (with_contents s contents) → EachHasOneEnding s.tree.statuses (values s.entries)
sound_endings s contents sound = (entries_tested s sound.limits.statuses (sound_entries s contents sound)).1

-- ---- an office whose rows the tables have

is_equal : (o : Ordering) → is_eq o ≡ true → o ≡ Equal
is_equal Less e = absurd cc
is_equal Equal e = refl
is_equal Greater e = absurd cc

entry_exact : CmpEqualImpliesEq entry_cmp
entry_exact = exact_pairs nat_cmp nat_cmp exact_unsigned exact_unsigned

-- the entry is that of the key
abbrev IsOf : ℕ × ℕ → Entry → Type 0
IsOf key e = (e.run ≡ key.0) × (e.record_no ≡ key.1)

first_is : (key : ℕ × ℕ) (x e : Entry) (rest : Option Entry) (tied : Bool) → eq_by_cmp entry_cmp key (x.run, x.record_no) ≡ tied → cond tied (Some x) rest ≡ Some e → (rest ≡ Some e → IsOf key e) → IsOf key e
first_is key x e rest true tie found later =
    let same : x ≡ e = cc found in
    let at : key ≡ (x.run, x.record_no) = entry_exact key (x.run, x.record_no) (is_equal (entry_cmp key (x.run, x.record_no)) tie) in
    subst (λ (it : Entry). IsOf key it) same (sym (ap (λ (k : ℕ × ℕ). k.0) at), sym (ap (λ (k : ℕ × ℕ). k.1) at))
first_is key x e rest false tie found later = later found

-- what is found under a key among entries under their own keys is that key's
found_is_of : (key : ℕ × ℕ) (es : List Entry) (e : Entry) → find entry_cmp key (entry_rows es) ≡ Some e → IsOf key e
found_is_of key [] e found = absurd cc
found_is_of key (x ∷ es) e found = first_is key x e (find entry_cmp key (entry_rows es)) (eq_by_cmp entry_cmp key (x.run, x.record_no)) refl found (found_is_of key es e)

module _ (t : TableLists) (s : State) (represent : Represents t s) where
  tables_keyed : AreEntriesKeyed s.office.entries
  unfolding rows_of
  tables_keyed = λ run r e at. found_is_of (run, r) t.entries e (ap (find entry_cmp (run, r)) represent.entries ∙ sym (get-entries s.office.entries (run, r)) ∙ at)

  tables_keys : HaveKeys s.contents t.contents
  unfolding rows_of
  tables_keys = sym represent.contents

-- entries that were read are each under its own run and record
pub entries_keyed : (t : TableLists) (s : Office) (contents : ByteMap) → AreTablesOf t s → HaveKeys contents t.contents → AreEntriesKeyed s.entries
entries_keyed t s contents represent have = tables_keyed t (with_contents s contents) (represent contents have)

-- a sound state of the tables is the office with its contents
pub found_state : (t : TableLists) (s : Office) (u : State) → length s.tree.statuses ≡ length s.tree.records → AreTablesOf t s → Represents t u → IsSound u
    → HaveKeys u.contents t.contents × IsSound (with_contents s u.contents)
found_state t s u many represent for sound =
    let have : HaveKeys u.contents t.contents = tables_keys t u for in
    let same : s ≡ u.office = one_office t (with_contents s u.contents) u many sound.limits.statuses (represent u.contents have) for in
    (have, subst (λ (o : Office). IsSound (with_contents o u.contents)) (sym same) sound)
