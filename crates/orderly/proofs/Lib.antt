pub mod Judging
pub mod OneAnswer
pub mod AboutJudge
