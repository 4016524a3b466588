use Rattle.std.{proofs.Common.{◌≡◌, ◌∙◌, ap, arith, codes, rules, sym}, specs.Prelude.{None, Some, option_and_then, option_map}}
use Rattle.clap.specs.Words.{found_of, rows_of, subcommand_rows_of}
use Rattle.stinger_server.{specs.Program.readers_of, proofs.Options.{nothing_met, option_read, options_met, unread, within}}
use Rattle.stinger_server.proofs.Options.{within_all, within_none}
use Rattle.stinger_server.proofs.arguments.readers.Goals.{then-readers-lt1-via-then-readers-lt1}
use Rattle.stinger_server.proofs.arguments.readers.Goals.{then-readers-lt1-via-else-readers-lt1+then-readers-gt4}
use Rattle.stinger_server.proofs.arguments.readers.Goals as goal

pub returns-in_err-readers : goal.returns-in_err-readers
returns-in_err-readers c =
    let f = found_of c.in_ok-options.options.now in
    nothing_met readers_of (subcommand_rows_of c.args.matches.now) (rows_of f) c.from_residual-in_err-readers.result
    (search rules) (search rules) (unread 64 1 4 (omega arith) (omega arith) f (codes "readers") c.get_one.result
    c.get_one.ensures.none c.get_one.ensures.value (search rules))

pub returns-then-readers-lt1 : goal.returns-then-readers-lt1
returns-then-readers-lt1 c =
    let f = found_of c.in_ok-options.options.now in
    let drive : option_map (λ p. p.1) (subcommand_rows_of c.args.matches.now) ≡ Some (rows_of f) = search rules in
    let read = option_read 64 1 4 (omega arith) (omega arith) f (codes "readers") _ c.get_one.ensures.none c.get_one.ensures.value in
    let some : c.get_one.result ≡ Some c.in_ok-readers.readers = search rules in
    let past : within 1 4 c.in_ok-readers.readers ≡ None = elim c.then-readers-lt1.branch [
      | then-readers-lt1-via-then-readers-lt1 w ↦ within_none 1 4 c.in_ok-readers.readers (λ low high. omega (arith, low, w.if-readers-lt1))
      | then-readers-lt1-via-else-readers-lt1+then-readers-gt4 w ↦
          within_none 1 4 c.in_ok-readers.readers (λ low high. omega (arith, high, w.if-readers-gt4))
    ] in
    sym (options_met readers_of _ (rows_of f) drive ∙ (read ∙ (ap (option_and_then (within 1 4)) some ∙ past)))

pub returns : goal.returns
returns c =
    let f = found_of c.in_ok-options.options.now in
    let drive : option_map (λ p. p.1) (subcommand_rows_of c.args.matches.now) ≡ Some (rows_of f) = search rules in
    let read = option_read 64 1 4 (omega arith) (omega arith) f (codes "readers") _ c.get_one.ensures.none c.get_one.ensures.value in
    let some : c.get_one.result ≡ Some c.in_ok-readers.readers = search rules in
    let among : within 1 4 c.in_ok-readers.readers ≡ Some c.in_ok-readers.readers =
    within_all 1 4 c.in_ok-readers.readers (omega arith) (omega arith) in
    sym (options_met readers_of _ (rows_of f) drive ∙ (read ∙ (ap (option_and_then (within 1 4)) some ∙ among)))
