use Rattle.epoch_core.proofs.start.open_over.Goals as goal

pub returns : goal.returns
returns c =
    let opening = c.in_ok-parts.ensures in
    let heap = c.in_ok-fill_lists.ensures in
    let status = c.mark_lists.ensures in
    λ i. record {
      world = record {
        opening = opening i;
        heap = heap i;
        status = status i;
        versions = c.args.parts.now.versions.items;
        floor = c.args.parts.now.floor;
        copy = c.args.parts.now.copy;
        sessions = c.args.parts.now.sessions.items;
      };
      replies = c.args.parts.now.replies.items;
    }
