mod Headlines
mod ReadFaults
mod RequestLaws
