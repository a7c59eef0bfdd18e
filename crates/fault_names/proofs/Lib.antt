mod NameListLemmas
mod PinNetLemmas
mod QuotedLemmas
