pub mod FewLines
pub mod CallLaws
