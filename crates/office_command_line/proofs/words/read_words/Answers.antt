use Rattle.std.proofs.Common.{◌≡◌, ◌∙◌, [], ap, sym, subst, true, map}
use Rattle.clap.specs.Words.{App, HasKind, fault_of, is_simple, is_simple_and_free, subcommand_of, takes}
use Rattle.office_command_line.specs.Command.{line_in, line_of, office_app}
use Rattle.office_command_line.proofs.Named.{command_named}
use Rattle.office_command_line.proofs.Simple.{office_app-free, office_app-simple}
use Rattle.office_command_line.proofs.words.read_words.Goals as goal

pub returns-in-Err-clause-taken : goal.returns-in-Err-clause-taken
returns-in-Err-clause-taken c = λ t. c.in-Err.ensures.passes (subst (λ (a : App). takes a (map (λ s. s.now) c.args.words.now) ≡ true) (sym c.in_ok-command.ensures) t)

pub returns-in-Err-clause-refused : goal.returns-in-Err-clause-refused
returns-in-Err-clause-refused c =
    let free = ap is_simple_and_free c.in_ok-command.ensures ∙ office_app-free in
    subst (λ (a : App). HasKind (fault_of a (map (λ s. s.now) c.args.words.now)) c.in-Err.error) c.in_ok-command.ensures (c.in-Err.ensures.kinds free)

pub returns-in-Ok-clause-asked : goal.returns-in-Ok-clause-asked
returns-in-Ok-clause-asked c =
    let simple = ap is_simple c.in_ok-command.ensures ∙ office_app-simple in
    let rows = (c.in-Ok.ensures.matches simple).1 in
    c.words_of.ensures ∙ ap line_in (rows ∙ ap (λ (a : App). subcommand_of a (map (λ s. s.now) c.args.words.now)) c.in_ok-command.ensures)

pub returns-in-Ok-clause-named : goal.returns-in-Ok-clause-named
returns-in-Ok-clause-named c =
    let words = map (λ s. s.now) c.args.words.now in
    let free = ap is_simple_and_free c.in_ok-command.ensures ∙ office_app-free in
    let none : fault_of office_app words ≡ [] = sym (ap (λ (a : App). fault_of a words) c.in_ok-command.ensures) ∙ c.in-Ok.ensures.kinds free in
    let simple = ap is_simple c.in_ok-command.ensures ∙ office_app-simple in
    let rows = (c.in-Ok.ensures.matches simple).1 in
    let same : line_of c.words_of.result ≡ line_in (subcommand_of office_app words) = c.words_of.ensures ∙ ap line_in (rows ∙ ap (λ (a : App). subcommand_of a words) c.in_ok-command.ensures) in
    λ e. command_named words none (sym same ∙ e)

pub returns-in-Ok-clause-refused : goal.returns-in-Ok-clause-refused
returns-in-Ok-clause-refused c =
    let free = ap is_simple_and_free c.in_ok-command.ensures ∙ office_app-free in
    sym (ap (λ (a : App). fault_of a (map (λ s. s.now) c.args.words.now)) c.in_ok-command.ensures) ∙ c.in-Ok.ensures.kinds free
