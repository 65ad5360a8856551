-- Words in which `clap` finds no fault name one of the office's commands.
use Rattle.std.proofs.Common.{◌≡◌, ◌≢◌, ◌∙◌, ap, sym, refl, cond, true, false, true≢false, not, ◌&&◌, Bool, List, [], ◌∷◌, Option, Some, None, IfSome, is_some, codes}
use Rattle.std.specs.Prelude.{⊤}
use Rattle.std.specs.List.{find, fold}
use Rattle.std.specs.Option.{option_map}
use Rattle.std.specs.Str.{bytes_eq}
use Rattle.std.proofs.Math.Bool.{or-false}
use Rattle.std.proofs.lemmas.Slice.Eq.{bytes_eq-Decides}
use Rattle.clap.specs.Words.{App, Kinds, Row, Rule, Shape, Text, fault_of, subcommand_of}
use Rattle.clap.specs.Kinds.{check_kinds, or_else}
use Rattle.clap.specs.Faults.{built_fault, check_fault, defaults_fault, entered_fault, level_fault, other_fault, settle_fault, step_fault, turn_fault, walk_fault, word_fault}
use Rattle.clap.specs.Simple.{argument_words, built, entered, label_of, names_of, rows_at}
use Rattle.clap.specs.Walk.{Held, Names, Outcome, Step, Waiting, Walk, after_flag, after_step, answers_to, arg_by_index, done, finished, idle, long_or_other, next, nothing_held, option, plain, plain_word, positional, refused, settled, short_or_plain, subcommand, subcommand_met, subcommand_or_other, to_positional, trailing, value, waits, walk, walk_from, walked, walked_from, word_met}
use Rattle.clap.specs.Lexer.{long_of, short_of}
use Rattle.clap.specs.declared.error.kind.ErrorKind.{ErrorKind}
use Rattle.clap.specs.declared.error.kind.ErrorKind.TheVariants.{DisplayHelp, DisplayHelpOnMissingArgumentOrSubcommand, InvalidSubcommand, MissingSubcommand}
use Rattle.clap.proofs.OnLiterals.{clap_on_literals}
use Rattle.office_command_line.specs.Command.{CommandLine, line_in, no_line, office_app, with_csv_commands, with_file_commands, with_import_command, with_plain_commands, with_register_commands, with_run_commands, with_service_commands}

-- ---- a walk without a fault stops at no `help`

first_none : (a b : Kinds) → or_else a b ≡ [] → a ≡ []
first_none [] b e = refl
first_none (k ∷ ks) b e = e

second_none : (a b : Kinds) → or_else a b ≡ [] → b ≡ []
second_none [] b e = e
second_none (k ∷ ks) b e = absurd (let bad : k ∷ ks ≡ [] = e in cc)

abbrev IsNoHelp : Option (Text × List Text) → Type 0
IsNoHelp stop = IfSome stop (λ p. bytes_eq p.0 (codes "help") ≡ false)

-- the word is no subcommand
abbrev IsOther : Step → Type 0
IsOther (subcommand name) = ⊥
IsOther _ = ⊤

plain_other : (c : List Rule) (waiting : Waiting) (word : Text) (h : Held) → IsOther (plain_word c waiting word h).1
plain_other c idle word h = tt
plain_other c (option id) word h = tt
plain_other c positional word h = tt

flag_other : (c : List Rule) (waiting : Waiting) (word : Text) (h : Held) (o : Outcome) → IsOther (after_flag c waiting word h o).1
flag_other c waiting word h done = tt
flag_other c waiting word h (waits id) = tt
flag_other c waiting word h plain = plain_other c waiting word h
flag_other c waiting word h refused = plain_other c waiting word h

short_other : (c : List Rule) (waiting : Waiting) (word : Text) (flags : Option Text) (h : Held) → IsOther (short_or_plain c waiting word flags h).1
short_other c waiting word (Some flags) h = flag_other c waiting word _ _
short_other c waiting word None h = plain_other c waiting word h

long_other : (c : List Rule) (waiting : Waiting) (word : Text) (long : Option (Text × Option Text)) (h : Held) → IsOther (long_or_other c waiting word long h).1
long_other c waiting word (Some p) h = flag_other c waiting word _ _
long_other c waiting word None h = short_other c waiting word (short_of word) h

-- after a word that is no subcommand the walk goes on
placed_on : (c : List Rule) (a : Option Rule) (word : Text) (w : Walk) (h : Held) → w.stopped ≡ None → (to_positional c a word w h).stopped ≡ None
placed_on c None word w h on = on
placed_on c (Some a) word w h on = refl

goes_on : (c : List Rule) (word : Text) (w : Walk) (h : Held) (step : Step) → w.stopped ≡ None → IsOther step → (after_step c word w h step).stopped ≡ None
goes_on c word w h (next waiting) on other = on
goes_on c word w h (trailing position) on other = on
goes_on c word w h (subcommand name) on other = absurd other
goes_on c word w h value on other = placed_on c (arg_by_index c w.position) word w h on

no_help : (stop : Option (Text × List Text)) → stop ≡ None → IsNoHelp stop
no_help None e = tt
no_help (Some p) e = absurd (let bad : Some p ≡ None = e in cc)

-- a call for help that is no fault is none
no_call : (k : ErrorKind) (ks : Kinds) (b off : Bool) → off ≡ false → cond (b && not off) (k ∷ ks) [] ≡ [] → b ≡ false
no_call k ks false off e none = refl
no_call k ks true true e none = absurd (true≢false e)
no_call k ks true false e none = absurd (let bad : k ∷ ks ≡ [] = none in cc)

module _ (s : Shape) (names : Names) (enabled : s.disable_help_subcommand ≡ false) where
  after_word : (w : Walk) (word : Text) → w.stopped ≡ None → word_fault s names w.is_trailing w.waiting word w.held ≡ []
      → IsNoHelp (after_step s.rules word w (word_met s.rules names w.is_trailing w.waiting w.position word w.held).0 (word_met s.rules names w.is_trailing w.waiting w.position word w.held).1).stopped
  after_word w word on = go w.is_trailing (subcommand_met names w.waiting word)
    where
      dashed : (b : Bool) → IsNoHelp (after_step s.rules word w (cond b (w.held, trailing w.position) (long_or_other s.rules w.waiting word (long_of word) w.held)).0 (cond b (w.held, trailing w.position) (long_or_other s.rules w.waiting word (long_of word) w.held)).1).stopped
      dashed true = no_help _ (goes_on s.rules word w w.held (trailing w.position) on tt)
      dashed false = no_help _ (goes_on s.rules word w _ _ on (long_other s.rules w.waiting word (long_of word) w.held))

      go : (t : Bool) (m : Option Text) → cond t [] (other_fault s m word w.held) ≡ []
          → IsNoHelp (after_step s.rules word w (cond t (w.held, value) (subcommand_or_other s.rules m w.waiting w.position word w.held)).0 (cond t (w.held, value) (subcommand_or_other s.rules m w.waiting w.position word w.held)).1).stopped
      go true m none = no_help _ (goes_on s.rules word w w.held value on tt)
      go false (Some name) none = no_call DisplayHelp (InvalidSubcommand ∷ []) (bytes_eq name (codes "help")) s.disable_help_subcommand enabled none
      go false None none = dashed (bytes_eq word (45 ∷ 45 ∷ []))

  after_turn : (w : Walk) (word : Text) → IsNoHelp w.stopped → turn_fault s names w word ≡ [] → IsNoHelp (walked s.rules names w word).stopped
  unfolding walked
  after_turn w word = go w.stopped refl
    where
      go : (stop : Option (Text × List Text)) → w.stopped ≡ stop → IsNoHelp stop
          → cond (is_some stop) [] (or_else (word_fault s names w.is_trailing w.waiting word w.held) (step_fault s w.position (word_met s.rules names w.is_trailing w.waiting w.position word w.held).0 (word_met s.rules names w.is_trailing w.waiting w.position word w.held).1)) ≡ []
          → IsNoHelp (walked_from s.rules names stop w word).stopped
      go (Some p) is other none = other
      go None is other none = after_word w word is (first_none _ _ none)

  after_words : (words : List Text) (w : Walk) → IsNoHelp w.stopped → walk_fault s names w words ≡ [] → IsNoHelp (fold (walked s.rules names) w words).stopped
  unfolding walk_fault
  after_words [] w other none = other
  after_words (word ∷ rest) w other none =
      let on = first_none (turn_fault s names w word) (walk_fault s names (walked s.rules names w word) rest) none in
      let left = second_none (turn_fault s names w word) (walk_fault s names (walked s.rules names w word) rest) none in
      after_words rest (walked s.rules names w word) (after_turn w word other on) left

-- ---- a subcommand that is no `help` asks for something

abbrev is_nothing : CommandLine → Bool
is_nothing no_line = true
is_nothing _ = false

-- where the subcommand is met by its name, and it is not `help`, something is asked for
abbrev Asks : Shape → Type 0
Asks s = (name : Text) (rows : List Row) → answers_to name (label_of s) ≡ true → bytes_eq name (codes "help") ≡ false → line_in (Some (s.name, rows)) ≢ no_line

abbrev AllAsk : List Shape → Type 0
AllAsk [] = ⊤
AllAsk (s ∷ subs) = Asks s × AllAsk subs

found_asks : (subs : List Shape) → AllAsk subs → (p : Text × List Text) → bytes_eq p.0 (codes "help") ≡ false
    → is_some (option_map (λ s. rows_at s p.1) (find (λ s. answers_to p.0 (label_of s)) subs)) ≡ true
    → line_in (option_map (λ s. rows_at s p.1) (find (λ s. answers_to p.0 (label_of s)) subs)) ≢ no_line
found_asks [] all p other = λ is. absurd (true≢false (sym is))
found_asks (s ∷ subs) all p other = go (answers_to p.0 (label_of s)) refl (found_asks subs all.1 p other)
  where
    go : (b : Bool) → answers_to p.0 (label_of s) ≡ b
        → (is_some (option_map (λ s. rows_at s p.1) (find (λ s. answers_to p.0 (label_of s)) subs)) ≡ true
        → line_in (option_map (λ s. rows_at s p.1) (find (λ s. answers_to p.0 (label_of s)) subs)) ≢ no_line)
        → is_some (option_map (λ s. rows_at s p.1) (cond b (Some s) (find (λ s. answers_to p.0 (label_of s)) subs))) ≡ true
        → line_in (option_map (λ s. rows_at s p.1) (cond b (Some s) (find (λ s. answers_to p.0 (label_of s)) subs))) ≢ no_line
    go true hit below is = all.0 p.0 (rows_at s p.1).1 hit other
    go false miss below is = below is

entered_asks : (a : App) → AllAsk a.subs → (stop : Option (Text × List Text)) → IsNoHelp stop → is_some (entered a stop) ≡ true → line_in (entered a stop) ≢ no_line
entered_asks a all None other is = absurd (true≢false (sym is))
entered_asks a all (Some p) other is = found_asks a.subs all p other is

-- ---- the last check asks for a subcommand

wants_none : (help subcommand argument : Bool) → check_kinds help subcommand argument ≡ [] → subcommand ≡ false
wants_none true b c none = absurd (let bad : DisplayHelpOnMissingArgumentOrSubcommand ∷ [] ≡ [] = none in cc)
wants_none false true c none = absurd (let bad : MissingSubcommand ∷ [] ≡ [] = none in cc)
wants_none false false c none = refl

has_one : (has required : Bool) → required ≡ true → (not has && required) ≡ false → has ≡ true
has_one true r is other = refl
has_one false r is other = absurd (true≢false (sym is ∙ other))

module _ (s : Shape) (names : Names) (h : Held) (words : List Text) (has : Bool) (below : Kinds) (none : level_fault s names h words has below ≡ []) where
  abbrev ended : Held
  ended = (walk s.rules names h words).held

  abbrev walks : Kinds
  walks = walk_fault s names (walk_from h) words

  abbrev settles : Kinds
  settles = settle_fault s.rules s.args_override_self ended

  abbrev defaults : Kinds
  defaults = defaults_fault (settled s.rules ended).rows s.rules

  abbrev checks : Kinds
  checks = check_fault s (finished s.rules ended) has

  no_walk : walks ≡ []
  no_walk = first_none walks (or_else below (or_else settles (or_else defaults checks))) none

  no_check : checks ≡ []
  no_check =
      second_none defaults checks
      (second_none settles (or_else defaults checks)
      (second_none below (or_else settles (or_else defaults checks))
      (second_none walks (or_else below (or_else settles (or_else defaults checks))) none)))

built_asks : (a : App) (words : List Text) → a.top.disable_help_subcommand ≡ false → a.top.subcommand_required ≡ true → AllAsk a.subs → built_fault a nothing_held words ≡ []
    → line_in (entered a (walk a.top.rules (names_of a) nothing_held words).stopped) ≢ no_line
built_asks a words enabled required all none =
    let stop = (walk a.top.rules (names_of a) nothing_held words).stopped in
    let has = is_some (entered a stop) in
    let free = after_words a.top (names_of a) enabled words (walk_from nothing_held) tt (no_walk a.top (names_of a) nothing_held words has (entered_fault a stop) none) in
    let checked = wants_none _ _ _ (no_check a.top (names_of a) nothing_held words has (entered_fault a stop) none) in
    entered_asks a all stop free (has_one has a.top.subcommand_required required checked)

-- ---- the office's commands

named_help : (name : Text) → answers_to name (codes "help", []) ≡ true → bytes_eq name (codes "help") ≡ false → ⊥
named_help name hit other =
    let same : codes "help" ≡ name = (bytes_eq-Decides (codes "help") name).0 (sym (or-false _) ∙ hit) in
    true≢false (sym ((bytes_eq-Decides name (codes "help")).1 (sym same)) ∙ other)

asks : {x : CommandLine} → is_nothing x ≡ false → x ≢ no_line
asks h e = true≢false (sym (ap is_nothing e) ∙ h)

all_ask : AllAsk (built office_app).subs
unfolding clap_on_literals office_app with_service_commands with_csv_commands with_register_commands with_import_command with_run_commands with_file_commands with_plain_commands
all_ask = (
  λ name rows hit other. asks refl,
  (
    λ name rows hit other. asks refl,
    (
      λ name rows hit other. asks refl,
      (
        λ name rows hit other. asks refl,
        (
          λ name rows hit other. asks refl,
          (
            λ name rows hit other. asks refl,
            (
              λ name rows hit other. asks refl,
              (
                λ name rows hit other. asks refl,
                (
                  λ name rows hit other. asks refl,
                  (
                    λ name rows hit other. asks refl,
                    (
                      λ name rows hit other. asks refl,
                      (λ name rows hit other. absurd (named_help name hit other), tt),
                    ),
                  ),
                ),
              ),
            ),
          ),
        ),
      ),
    ),
  ),
)

office_enabled : (built office_app).top.disable_help_subcommand ≡ false
unfolding clap_on_literals office_app with_service_commands with_csv_commands with_register_commands with_import_command with_run_commands with_file_commands with_plain_commands
office_enabled = refl

office_required : (built office_app).top.subcommand_required ≡ true
unfolding clap_on_literals office_app with_service_commands with_csv_commands with_register_commands with_import_command with_run_commands with_file_commands with_plain_commands
office_required = refl

pub command_named : (words : List Text) → fault_of office_app words ≡ [] → line_in (subcommand_of office_app words) ≢ no_line
command_named words none = built_asks (built office_app) (argument_words office_app words) office_enabled office_required all_ask none
