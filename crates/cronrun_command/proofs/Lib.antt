mod Answered
mod Calls
mod CountTexts
mod Examples
mod Listed
mod Unread
mod Words
