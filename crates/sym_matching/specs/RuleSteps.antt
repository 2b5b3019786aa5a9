pub mod InSetting
