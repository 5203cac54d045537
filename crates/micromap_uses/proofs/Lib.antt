pub mod ExchangeLaws
pub mod PermissionLaws
pub mod ValueLaws
pub mod WordLaws
