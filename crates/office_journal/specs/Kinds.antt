-- The members of the other lines of a gate. Source: docs/ACCESS.md, "The journal", and the lines of companions/gate.
use Rattle.std.specs.Prelude.{List, [], ◌∷◌, ◌++◌, true, codes}
use Rattle.json.specs.Json.{document}
use Rattle.office_journal.specs.declared.came.Came.{Came}
use Rattle.office_journal.specs.declared.gate.Begun.{Begun}
use Rattle.office_journal.specs.declared.gate.Clock.{Clock}
use Rattle.office_journal.specs.declared.gate.Ended.{Ended}
use Rattle.office_journal.specs.declared.gate.Settings.{Settings}
use Rattle.office_journal.specs.declared.reading.Reading.{Reading}
use Rattle.office_journal.specs.declared.vault.Upload.{Upload}
use Rattle.office_journal.specs.declared.refused.Refused.{Refused}
use Rattle.office_journal.specs.declared.vault.Stored.{Stored}
use Rattle.office_journal.specs.Members.{AreRead, Field, IsRead, contents_fields, digest_field, digest_fields, flag_field, flag_fields, json_fields, json_fields_if_any, number_field, number_fields, preceding_fields, sum_field, sum_fields, text_field, text_fields, who_fields}

-- ---- requests

abbrev pub came_fields : Came → List Field
came_fields came =
    who_fields came.at.now (codes "came") came.name.now came.from.now came.request.now
    ++ sum_field (codes "body") came.body ∷ [] ++ preceding_fields came.preceding

-- the acts of a list that was refused, or how many there are of each kind
abbrev pub refused_acts : Refused → List Field
refused_acts refused =
    number_fields (codes "count") refused.count
    ++ json_fields_if_any (codes "kinds") refused.kinds ++ json_fields_if_any (codes "acts") refused.acts
    ++ digest_fields (codes "settings") refused.settings ++ json_fields_if_any (codes "earlier") refused.earlier
    ++ json_fields_if_any (codes "files") refused.files ++ contents_fields refused.contents

abbrev pub AreActsRead : Refused → Type 0
AreActsRead refused = AreRead refused.kinds × AreRead refused.acts × AreRead refused.earlier × AreRead refused.files

abbrev pub refused_fields : Refused → List Field
refused_fields refused =
    who_fields refused.at.now (codes "refused") refused.name.now refused.from.now refused.request.now
    ++ text_fields (codes "reason") refused.reason ++ text_fields (codes "key") refused.key
    ++ sum_fields (codes "body") refused.body ++ refused_acts refused
    ++ number_field (codes "status") refused.status ∷ [] ++ json_fields (codes "answer") (document refused.answer.now)
    ++ flag_fields (codes "last") refused.is_last true ++ preceding_fields refused.preceding

abbrev pub IsRefusedRead : Refused → Type 0
IsRefusedRead refused = AreActsRead refused × IsRead refused.answer.now

abbrev pub reading_fields : Reading → List Field
reading_fields reading =
    who_fields reading.at.now (codes "read") reading.name.now reading.from.now reading.request.now
    ++ number_field (codes "status") reading.status ∷ number_field (codes "bytes") reading.bytes ∷ []
    ++ preceding_fields reading.preceding

abbrev pub upload_fields : Upload → List Field
upload_fields upload =
    who_fields upload.at.now (codes "put") upload.name.now upload.from.now upload.request.now
    ++ text_fields (codes "reason") upload.reason ++ text_fields (codes "key") upload.key ++ preceding_fields upload.preceding

abbrev pub stored_fields : Stored → List Field
stored_fields stored =
    who_fields stored.at.now (codes "stored") stored.name.now stored.from.now stored.request.now
    ++ text_fields (codes "reason") stored.reason ++ text_fields (codes "key") stored.key
    ++ number_field (codes "bytes") stored.bytes ∷ [] ++ preceding_fields stored.preceding

-- ---- the gate itself

abbrev pub begun_fields : Begun → List Field
begun_fields begun =
    text_field (codes "at") begun.at.now ∷ text_field (codes "what") (codes "opened")
    ∷ digest_field (codes "settings") begun.settings ∷ preceding_fields begun.preceding

abbrev pub ended_fields : Ended → List Field
ended_fields ended =
    text_field (codes "at") ended.at.now ∷ text_field (codes "what") (codes "closed")
    ∷ preceding_fields ended.preceding

abbrev pub settings_fields : Settings → List Field
settings_fields settings =
    text_field (codes "at") settings.at.now ∷ text_field (codes "what") (codes "settings")
    ∷ digest_field (codes "sha256") settings.sha256 ∷ preceding_fields settings.preceding

abbrev pub clock_fields : Clock → List Field
clock_fields clock =
    text_field (codes "at") clock.at.now ∷ text_field (codes "what") (codes "clock")
    ∷ flag_field (codes "believed") clock.is_believed ∷ text_field (codes "why") clock.why.now
    ∷ preceding_fields clock.preceding
