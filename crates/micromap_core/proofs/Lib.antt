pub mod EntryLemmas
pub mod Laws
pub mod Opened
pub mod StreamLemmas
pub mod UnstyledLemmas
-- older paths of laws, which callers may have written
pub use Rattle.micromap_core.proofs.Laws.ClosureLaws as ClosureLemmas
pub use Rattle.micromap_core.proofs.Laws.SublistLaws as DistinctLemmas
pub use Rattle.micromap_core.proofs.Laws.FairLemmas
pub use Rattle.micromap_core.proofs.Laws.MapLemmas
