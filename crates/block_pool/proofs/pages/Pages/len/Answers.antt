use Rattle.block_pool.proofs.Paging.{seen_length}
use Rattle.block_pool.proofs.pages.Pages.len.Goals as goal

pub returns : goal.returns
returns g c = seen_length _ _ _ _ c.self.view_is
