-- What is asked with a record that is to be added. Source: MoReq2010, its record service; the limits are own.
use Rattle.std.specs.Prelude.{ℕ, ℤ, List, Option}
use Rattle.office_rules.specs.declared.act.Act.{Act}
use Rattle.office_rules.specs.declared.act.Act.TheVariants.{AddRecord}

-- a record that is to be added: its members as they are asked for, with the bytes of its content
pub record NewRecord : Type 0 where
  pub ref_text : List ℕ
  pub title : List ℕ
  pub originated : ℤ
  pub aggregation : ℕ
  pub class : Option (List ℕ)
  pub schedule : Option (List ℕ)
  pub content : List ℕ

-- the record of these members
abbrev pub new_record : List ℕ → List ℕ → ℤ → ℕ → Option (List ℕ) → Option (List ℕ) → List ℕ → NewRecord
new_record ref_text title originated aggregation class schedule content = record {
  ref_text = ref_text;
  title = title;
  originated = originated;
  aggregation = aggregation;
  class = class;
  schedule = schedule;
  content = content;
}

-- the act that asks for it on a day
abbrev pub add_record : ℤ → NewRecord → Act
add_record day new =
    AddRecord day new.ref_text new.title new.originated new.aggregation new.class new.schedule new.content
