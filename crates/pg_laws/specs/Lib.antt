pub mod SettingLaws
pub mod Laws
pub mod Samples
