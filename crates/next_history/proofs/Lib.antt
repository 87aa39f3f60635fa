pub mod SlotLemmas
pub mod ForgottenLemmas
pub mod IndexLemmas
pub mod ClientLemmas
