-- That std's test of finite numbers is `finite`.
pub mod Same
