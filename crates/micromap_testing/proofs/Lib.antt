pub mod LockstepLemmas
