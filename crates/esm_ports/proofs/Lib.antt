pub mod AskLemmas
pub mod AnswerLemmas
pub mod PutLemmas
pub mod FileLemmas
