-- The row of a record suits its table.
use Rattle.std.proofs.Common.{ℕ, inl, refl, pos}
use Rattle.std.specs.Option.{option_map}
use Rattle.hex.specs.Hex.{encode_lower}
use Rattle.office_records.specs.Words.{action_word, status_word}
use Rattle.office_rules.specs.declared.rows.RecordRow.{RecordRow}
use Rattle.office_sql.specs.Schema.{records}
use Rattle.office_sql.specs.Suited.{IsRowFor}
use Rattle.office_sql.proofs.SuitedShown.{number_or_none, text_or_none}
use Rattle.office_store.specs.Encoded.{encoded_record}

pub record_suits : (number : ℕ) (row : RecordRow) → IsRowFor records (encoded_record number row)
record_suits number row = record {
  columns = (
    inl (pos number, refl),
    (inl (row.ref_text, refl), (inl (row.title, refl), (inl (row.originated, refl), (inl (row.added, refl), (inl (pos row.aggregation, refl), (inl (pos row.size, refl), (inl (encode_lower row.digest, refl), (inl (status_word row.status, refl), (text_or_none row.class, (text_or_none row.schedule, (number_or_none row.reviewed, (text_or_none row.reviewed_by, (text_or_none (option_map action_word row.conf_action), (number_or_none row.conf_due, (number_or_none row.conf_day, (text_or_none row.conf_by, (number_or_none row.receipt_day, (text_or_none row.receipt_by, tt)))))))))))))))))),
  );
  key = λ is. (pos number, refl);
}
