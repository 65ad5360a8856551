-- What is asked with a new record, as the members of its act are handed on. Source: own.
use Rattle.office_rules.specs.NewRecords.{NewRecord, new_record}
use Rattle.office_machine.specs.declared.new_record.Filing.{Filing}

-- the record of these members
abbrev pub filed : Filing → NewRecord
filed new =
    new_record new.ref_text.now new.title.now new.originated new.aggregation new.class.now new.schedule.now
    new.content.now
