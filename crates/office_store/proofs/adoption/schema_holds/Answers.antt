use Rattle.office_store.proofs.ContentForm.{contents_obey}
use Rattle.office_store.proofs.adoption.schema_holds.Goals as goal

pub returns : goal.returns
returns g c ed rest = contents_obey ed _ rest.office (c.schema.ensures.live rest.is_open).0
