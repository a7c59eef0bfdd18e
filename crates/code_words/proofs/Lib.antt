mod PhraseLemmas
