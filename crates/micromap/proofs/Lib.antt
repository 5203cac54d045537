pub mod Forwarded
pub mod JsonReading
pub mod JsonWriting
pub mod Laws
pub mod Rules
-- older paths of laws, which callers may have written
pub use Rattle.micromap.proofs.Laws.ItemLemmas
pub use Rattle.micromap.proofs.Laws.OperationLaws
pub use Rattle.micromap.proofs.Laws.SetStreamLaws as SetStreamLemmas
pub use Rattle.micromap_core.proofs.Laws.ClosureLaws as ClosureLemmas
pub use Rattle.micromap_core.proofs.Laws.SublistLaws as DistinctLemmas
pub use Rattle.micromap_core.proofs.Laws.FairLemmas
