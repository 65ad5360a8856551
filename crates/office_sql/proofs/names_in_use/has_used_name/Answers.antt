use Rattle.std.proofs.Common.{ap, ◌∙◌}
use Rattle.office_sql.specs.Names.{has_used_name}
use Rattle.office_sql.proofs.names_in_use.has_used_name.Goals as goal

pub returns : goal.returns
returns g c = c.uses_one_of.ensures ∙ ap has_used_name c.schema.ensures.value
