mod DeclaredTexts
mod Meant
mod Selected
pub mod Steps
mod Tables
