pub mod Texts
pub mod InterfaceTexts
