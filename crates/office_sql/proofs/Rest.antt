-- What is spared or kept of the rest of a file, from one change to the next.
use Rattle.std.proofs.Common.{◌≡◌, refl, sym, subst, ◌∙◌}
use Rattle.sqlite_trees.specs.Tree.{Trees}
use Rattle.sqlite_schema.specs.declared.schema.Schema.{Schema}
use Rattle.sqlite_catalog.proofs.ReadLemmas.{lists_once}
use Rattle.sqlite_trees.specs.Objects.{catalog_tree}
use Rattle.sqlite_rules.specs.Lists.{Has}
use Rattle.sqlite.specs.Effect.{Database, IsDatabase}
use Rattle.sqlite.specs.State.{State}
use Rattle.office_sql.specs.Office.{IsAlone, IsAtRestOver, IsUnlisted, KeepsAsides, KeepsObjects, KeepsRest, Leaves, SparesRest}
use Rattle.office_sql.specs.declared.schema_versions.SchemaVersion.{SchemaVersion}

pub spares_none : (d : Database) → SparesRest d d
spares_none d = record { schema = refl; rows = λ u here other. refl; unlisted = λ tree is. refl }

pub spares_then : (a b c : Database) → SparesRest a b → SparesRest b c → SparesRest a c
spares_then a b c first next = record {
  schema = next.schema ∙ first.schema;
  rows = λ u here other. next.rows u (subst (λ (s : Schema). Has s.tables u) (sym first.schema) here) other ∙ first.rows u here other;
  unlisted = λ tree is. next.unlisted tree (subst (λ (s : Schema). IsUnlisted s tree) (sym first.schema) is) ∙ first.unlisted tree is;
}

pub keeps_objects : (a b : Schema) → b ≡ a → KeepsObjects a b
keeps_objects a b same = subst (KeepsObjects a) (sym same) (record { tables = λ t h. h; indexes = λ i h. h; views = λ v h. h })

pub keeps_spared : (a b : Database) → SparesRest a b → KeepsRest a b
keeps_spared a b spared = record {
  objects = keeps_objects a.schema b.schema spared.schema;
  rows = spared.rows;
  asides = λ v here aside alone. (subst (λ (s : Schema). IsAlone s v) (sym spared.schema) alone, spared.unlisted v.tree alone.unlisted);
}

pub objects_then : (a b c : Schema) → KeepsObjects a b → KeepsObjects b c → KeepsObjects a c
objects_then a b c first next = record {
  tables = λ t h. next.tables t (first.tables t h);
  indexes = λ i h. next.indexes i (first.indexes i h);
  views = λ v h. next.views v (first.views v h);
}

pub asides_then : (a b c : Database) → KeepsObjects a.schema b.schema → KeepsAsides a b → KeepsAsides b c → KeepsAsides a c
asides_then a b c objects first next v here aside alone =
    let was = first v here aside alone in
    let now = next v (objects.views v here) aside was.0 in
    (now.0, now.1 ∙ was.1)

pub keeps_then : (a b c : Database) → KeepsRest a b → KeepsRest b c → KeepsRest a c
keeps_then a b c first next = record {
  objects = objects_then a.schema b.schema c.schema first.objects next.objects;
  rows = λ u here other. next.rows u (first.objects.tables u here) other ∙ first.rows u here other;
  asides = asides_then a b c first.objects first.asides next.asides;
}

-- trees list one schema
same_schema : (s t : Schema) (trees : Trees) → IsDatabase (record { schema = s; trees = trees }) → IsDatabase (record { schema = t; trees = trees }) → s ≡ t
same_schema s t trees p q = lists_once (trees catalog_tree) s t p.lists q.lists

-- what a crash leaves, where it is the trees of a database of the kind
pub leaves_one : (Is : Database → Type 0) (d : Database) (db : Trees) → IsDatabase d → Is d → db ≡ d.trees → (schema : Schema) × IsDatabase (record { schema = schema; trees = db }) × Is (record { schema = schema; trees = db })
leaves_one Is d db sound is same =
    subst (λ (t : Trees). (schema : Schema) × IsDatabase (record { schema = schema; trees = t }) × Is (record { schema = schema; trees = t })) (sym same) (d.schema, sound, is)

-- between calls a crash leaves just what is there
pub leaves_at_rest : (e : SchemaVersion) (Is : Database → Type 0) (s : State) → IsAtRestOver e s → Is s.now → Leaves Is s
leaves_at_rest e Is s rest is db may = leaves_one Is s.now db rest.office.has.database is (rest.only db may)

-- and, where what is left is of the kind of one call after another, the calls compose
pub leaves_then : (e : SchemaVersion) (old mid new : State) → IsAtRestOver e mid → Leaves (SparesRest old.now) mid → Leaves (SparesRest mid.now) new → Leaves (SparesRest old.now) new
leaves_then e old mid new rest first next db may =
    let was = first mid.now.trees rest.stays in
    let same : was.0 ≡ mid.now.schema = same_schema was.0 mid.now.schema mid.now.trees was.1 rest.office.has.database in
    let spared : SparesRest old.now mid.now = subst (λ (s : Schema). SparesRest old.now (record { schema = s; trees = mid.now.trees })) same was.2 in
    let left = next db may in
    (left.0, left.1, spares_then old.now mid.now _ spared left.2)

-- what one call keeps is kept where the next spares it
pub leaves_kept : (e : SchemaVersion) (old mid new : State) → IsAtRestOver e mid → Leaves (KeepsRest old.now) mid → Leaves (SparesRest mid.now) new → Leaves (KeepsRest old.now) new
leaves_kept e old mid new rest first next db may =
    let was = first mid.now.trees rest.stays in
    let same : was.0 ≡ mid.now.schema = same_schema was.0 mid.now.schema mid.now.trees was.1 rest.office.has.database in
    let kept : KeepsRest old.now mid.now = subst (λ (s : Schema). KeepsRest old.now (record { schema = s; trees = mid.now.trees })) same was.2 in
    let left = next db may in
    (left.0, left.1, keeps_then old.now mid.now _ kept (keeps_spared mid.now _ left.2))
