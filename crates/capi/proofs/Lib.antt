pub mod CodeLaws
pub mod CaseCodes
pub mod WrittenCodes
pub mod ReplyLaws
pub mod MadeCodes
pub mod PrintedCodes
