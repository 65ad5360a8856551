use Rattle.std.proofs.Common.{ap, ◌∙◌}
use Rattle.office_sql.specs.Names.{has_other_table}
use Rattle.office_sql.proofs.names_in_use.has_any_table.Goals as goal

pub returns : goal.returns
returns g c = c.names_one_of.ensures ∙ ap has_other_table c.schema.ensures.value
