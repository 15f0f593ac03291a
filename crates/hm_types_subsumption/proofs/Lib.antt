mod Found
mod Numbered
