pub mod Elsewhere
pub mod Found
pub mod Given
pub mod TextParts
pub mod WorkedHoles
pub mod WorkedLimits
pub mod WorkedMends
pub mod WorkedPartTypes
