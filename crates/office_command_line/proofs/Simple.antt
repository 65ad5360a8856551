-- The office's command is one of which `clap` reports the matches and the faults.
use Rattle.std.proofs.Common.{◌≡◌, true, refl}
use Rattle.clap.specs.Words.{is_simple, is_simple_and_free}
use Rattle.clap.proofs.OnLiterals.{clap_on_literals}
use Rattle.office_command_line.specs.Command.{office_app, with_csv_commands, with_file_commands, with_import_command, with_plain_commands, with_register_commands, with_run_commands, with_service_commands}

pub office_app-simple : is_simple office_app ≡ true
unfolding clap_on_literals office_app with_service_commands with_csv_commands with_register_commands with_import_command with_run_commands with_file_commands with_plain_commands
office_app-simple = refl

pub office_app-free : is_simple_and_free office_app ≡ true
unfolding clap_on_literals office_app with_service_commands with_csv_commands with_register_commands with_import_command with_run_commands with_file_commands with_plain_commands
office_app-free = refl
