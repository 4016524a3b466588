use Rattle.std.proofs.{Common.{◌≡◌, ◌∙◌, ◌&&◌, [], Bool, ap, ap₂, codes, false, refl, rules, true}, lemmas.Result.IfOk-weaker}
use Rattle.std.specs.Prelude.{is_some, not}
use Rattle.clap.specs.{Simple.App, Simple.app_of, Simple.new_shape, Simple.with_subcommand, Walk.is_empty}
use Rattle.clap.specs.declared.builder.command.Command.{Command, TheViews.out-Command}
use Rattle.stinger_server.proofs.command_line.command.Goals as goal

abbrev top_app : App
top_app = record {
  top = record (new_shape (codes "stinger")) {
    no_binary_name = true;
    disable_help_subcommand = true;
    subcommand_required = true;
  };
  subs = [];
}

third : (a b h rest : Bool) → (a && (b && (not h && rest))) ≡ true → h ≡ false
third a b false rest e = refl
third true true true rest e = cc
third true false true rest e = cc
third false b true rest e = cc

-- a command that is plain has no global argument
no_globals : (c : Command) → (app_of c).top.is_plain ≡ true → (out-Command c).has_globals ≡ false
no_globals c plain =
    let f = out-Command c in
    third (is_empty f.groups.items) (not f.allow_external_subcommands) f.has_globals (not f.infer_long_args
    && (not f.allow_missing_positional
    && (not f.infer_subcommands && (not f.args_conflicts_with_subcommands
    && (not f.subcommand_precedence_over_arg
    && (not (is_some f.long_flag)
    && (not (is_some f.short_flag) && (is_empty f.long_flag_aliases.items
    && is_empty f.short_flag_aliases.items)))))))) plain

pub returns : goal.returns
returns g c =
    let top : app_of c.subcommand_required.result ≡ top_app = search rules in
    let run = c.in_ok-run_command.ensures in
    let drive = c.in_ok-drive_command.ensures in
    let first = c.in_ok-subcommand.ensures.shape (no_globals _ (ap (λ (a : App). a.top.is_plain) run))
    ∙ ap₂ with_subcommand top (ap (λ (a : App). a.top) run) in
    IfOk-weaker c.subcommand-2.result _ _
    (λ command h. h.shape (no_globals _ (ap (λ (a : App). a.top.is_plain) drive))
    ∙ ap₂ with_subcommand first (ap (λ (a : App). a.top) drive)) c.subcommand-2.ensures
