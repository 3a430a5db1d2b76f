pub mod ReportableLaws
pub mod ValueLaws
