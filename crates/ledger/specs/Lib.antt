pub mod Ledger
pub mod Fills
pub mod FillsLaws
pub mod LedgerLaws
pub mod Bytes
pub mod BytesLaws
