-- Tag names: their faults, and that a name without one is grammatical.
pub mod FaultTable
pub mod Grammar
pub mod ClearTexts
pub mod Laws
