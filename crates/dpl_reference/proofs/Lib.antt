pub mod Spacings
pub mod RoleLaws
