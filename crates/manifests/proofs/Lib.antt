mod AnswerLaws
mod AskLaws
mod CountLaws
mod FindLaws
mod LineLaws
mod TellLaws
mod Lists
mod Worked
