-- A retention period as contracts see it. Source: MoReq2010, disposal scheduling service; units and limits are own.
use Rattle.std.specs.Prelude.{ℕ}
use Rattle.office_days.specs.declared.unit.Unit.{Unit}

pub record RetentionPeriod : Type 0 where
  pub unit : Unit
  pub count : ℕ
