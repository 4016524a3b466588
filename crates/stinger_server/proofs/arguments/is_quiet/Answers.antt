use Rattle.std.proofs.Common.{◌≡◌, ◌∙◌, ap, codes, false, rules, sym}
use Rattle.std.specs.{Prelude.None, Prelude.Some, Prelude.option_map, Option.option_map_or, Str.bytes_eq}
use Rattle.clap.specs.{Matches.first_value, Words.found_of, Words.rows_of, Words.subcommand_rows_of}
use Rattle.stinger_server.proofs.Options.{quiet_met}
use Rattle.stinger_server.proofs.arguments.is_quiet.Goals as goal

pub returns-in-Some-get_str : goal.returns-in-Some-get_str
returns-in-Some-get_str c =
    let f = found_of c.in-Some.options.now in
    let met = subcommand_rows_of c.args.matches.now in
    let command : option_map (λ p. p.1) met ≡ Some (rows_of f) = search rules in
    let first : first_value f (codes "quiet") ≡ Some c.in-Some-get_str.value.now = search rules in
    let same : c.eq.result ≡ bytes_eq c.in-Some-get_str.value.now (codes "true") = search rules in
    quiet_met met f c.eq.result command
    (same ∙ sym (ap (λ value. option_map_or (λ text. bytes_eq text (codes "true")) value false) first))

pub returns-in-None : goal.returns-in-None
returns-in-None c =
    let f = found_of c.in-Some.options.now in
    let met = subcommand_rows_of c.args.matches.now in
    let command : option_map (λ p. p.1) met ≡ Some (rows_of f) = search rules in
    let first : first_value f (codes "quiet") ≡ None = search rules in
    quiet_met met f false command
    (sym (ap (λ value. option_map_or (λ text. bytes_eq text (codes "true")) value false) first))
