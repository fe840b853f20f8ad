mod RowFacts
