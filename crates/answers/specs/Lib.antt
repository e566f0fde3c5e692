-- What a call answers, as a status and numbers; and what each function promises.
pub mod Answers
pub mod Promises
