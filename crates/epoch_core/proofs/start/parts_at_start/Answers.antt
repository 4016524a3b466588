use Rattle.epoch_core.proofs.start.parts_at_start.Goals as goal

pub returns : goal.returns
returns c =
    let opening = c.empty_opening.ensures in
    let heap = c.in_ok-heap.ensures in
    let status = c.in_ok-status.ensures in
    let versions = c.new.ensures.items in
    let copy = c.none.ensures in
    let sessions = c.in_ok-sessions.ensures in
    let replies = c.in_ok-replies.ensures in
    λ i. record {
      world = record {
        opening = opening i;
        heap = heap i;
        status = status i;
        versions = versions i;
        floor = 0;
        copy = copy i;
        sessions = sessions i;
      };
      replies = replies i;
    }
