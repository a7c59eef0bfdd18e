mod BlameLemmas
mod CutLemmas
mod DrawnLemmas
mod PageLemmas
mod SaidLemmas
mod WordLemmas
