mod Feeds
mod Pieces
