use Rattle.std.{proofs.Common.{◌≡◌, ◌∙◌, ap, arith, codes, rules, sym}, specs.Prelude.{Some, option_and_then, option_map}}
use Rattle.clap.specs.Words.{found_of, rows_of, subcommand_rows_of}
use Rattle.stinger_server.{specs.Program.{sizes_given, sizes_of}, proofs.Options.{option_read, options_met, sizes_made, with_all}}
use Rattle.stinger_server.proofs.Options.{nothing_met, unread, within, without_blocks, without_seats, without_workers}
use Rattle.stinger_server.proofs.arguments.configure.Goals as goal

pub returns-in_err-workers-clause-sizes : goal.returns-in_err-workers-clause-sizes
returns-in_err-workers-clause-sizes c =
    let f = found_of c.in_ok-options.options.now in
    nothing_met sizes_of (subcommand_rows_of c.args.matches.now) (rows_of f) (sizes_given c.from_residual-in_err-workers.result)
    (search rules) (search rules) (without_workers (rows_of f) (unread 64 1 8 (omega arith) (omega arith) f
    (codes "workers") c.get_one.result c.get_one.ensures.none c.get_one.ensures.value (search rules)))

pub returns-in_err-blocks-clause-sizes : goal.returns-in_err-blocks-clause-sizes
returns-in_err-blocks-clause-sizes c =
    let f = found_of c.in_ok-options.options.now in
    nothing_met sizes_of (subcommand_rows_of c.args.matches.now) (rows_of f) (sizes_given c.from_residual-in_err-blocks.result)
    (search rules) (search rules) (without_blocks (rows_of f) (unread 32 16 65536 (omega arith) (omega arith) f
    (codes "blocks") c.get_one-2.result c.get_one-2.ensures.none c.get_one-2.ensures.value (search rules)))

pub returns-in_err-seats-clause-sizes : goal.returns-in_err-seats-clause-sizes
returns-in_err-seats-clause-sizes c =
    let f = found_of c.in_ok-options.options.now in
    nothing_met sizes_of (subcommand_rows_of c.args.matches.now) (rows_of f) (sizes_given c.from_residual-in_err-seats.result)
    (search rules) (search rules) (without_seats (rows_of f) (unread 64 1 16 (omega arith) (omega arith) f
    (codes "seats") c.get_one-3.result c.get_one-3.ensures.none c.get_one-3.ensures.value (search rules)))

pub returns-clause-sizes : goal.returns-clause-sizes
returns-clause-sizes c =
    let f = found_of c.in_ok-options.options.now in
    let run : option_map (λ p. p.1) (subcommand_rows_of c.args.matches.now) ≡ Some (rows_of f) = search rules in
    let workers = option_read 64 1 8 (omega arith) (omega arith) f (codes "workers") c.get_one.result
    c.get_one.ensures.none c.get_one.ensures.value in
    let blocks = option_read 32 16 65536 (omega arith) (omega arith) f (codes "blocks") c.get_one-2.result
    c.get_one-2.ensures.none c.get_one-2.ensures.value in
    let seats = option_read 64 1 16 (omega arith) (omega arith) f (codes "seats") c.get_one-3.result
    c.get_one-3.ensures.none c.get_one-3.ensures.value in
    let one : c.get_one.result ≡ Some c.in_ok-workers.workers = search rules in
    let two : c.get_one-2.result ≡ Some c.in_ok-blocks.blocks = search rules in
    let three : c.get_one-3.result ≡ Some c.in_ok-seats.seats = search rules in
    sizes_made c.in_ok-workers.workers c.in_ok-blocks.blocks c.in_ok-seats.seats c.new.result
    c.new.ensures
    ∙ sym (options_met sizes_of _ (rows_of f) run ∙ with_all (rows_of f) (within 1 8 c.in_ok-workers.workers)
    (within 16 65536 c.in_ok-blocks.blocks) (within 1 16 c.in_ok-seats.seats)
    (workers ∙ ap (option_and_then (within 1 8)) one) (blocks ∙ ap (option_and_then (within 16 65536)) two)
    (seats ∙ ap (option_and_then (within 1 16)) three))
