mod FloatLemmas
mod SizeLemmas
