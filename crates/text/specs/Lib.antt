pub mod Scan
pub mod Print
pub mod Puts
pub mod Lines
pub mod ScanLaws
pub mod PrintLaws
pub mod PutsLaws
